mod Places
mod Runs
