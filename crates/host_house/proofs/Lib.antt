mod Kept
mod Opened
