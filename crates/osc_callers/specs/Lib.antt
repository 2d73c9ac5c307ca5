pub mod Callers
pub mod PremisesMet
pub mod Calls
pub mod Courses
