mod Asked
mod Decided
mod Heard
mod Noted
mod Notices
mod Planned
mod Taken
