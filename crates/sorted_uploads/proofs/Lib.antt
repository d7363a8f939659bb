mod Unwritten
mod Loaded
