mod Growth
mod Enough
