mod Joining
mod Asking
mod Telling
