pub mod EntriesInside
pub mod Listed
pub mod ListedUnder
pub mod Names
pub mod Tables
