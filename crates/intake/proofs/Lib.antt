mod Lines
mod Kept
