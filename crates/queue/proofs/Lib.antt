mod Cyclic
