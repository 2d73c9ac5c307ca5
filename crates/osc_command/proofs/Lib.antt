pub mod LocalCommands
