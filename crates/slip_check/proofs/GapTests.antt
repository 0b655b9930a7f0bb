-- How the tests of a gap slip, made one after another, decide.
use Rattle.std.proofs.Common.{◌≡◌, Bool, true, false, ◌&&◌, arith}

-- one more test, which is made where the tests before it have passed
pub passed : (x y v : Bool) → x ≡ true → v ≡ y → v ≡ (x && y)
passed x y v e f = grind arith

pub failed : (x y v : Bool) → x ≡ false → v ≡ x → v ≡ (x && y)
failed x y v e f = grind arith

-- all tests
pub all_six : (a b c d e f two three four five six : Bool) → two ≡ (a && b) → three ≡ (two && c) → four ≡ (three && d) → five ≡ (four && e) → six ≡ (five && f)
    → six ≡ (a && (b && (c && (d && (e && f)))))
all_six a b c d e f two three four five six p q r s t = grind arith
