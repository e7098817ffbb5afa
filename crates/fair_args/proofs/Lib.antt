mod Reasons
mod Refused
mod Steps
