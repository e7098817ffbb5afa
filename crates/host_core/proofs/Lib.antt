mod Asked
mod Begun
mod Kept
mod Openings
mod Passed
mod TakenOut
mod Turned
