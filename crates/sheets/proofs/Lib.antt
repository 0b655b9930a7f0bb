mod Agreeing
mod MarkBytes
mod Serving
