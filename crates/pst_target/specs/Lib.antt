pub mod Arguments
pub mod Calls
pub mod CallEnd
pub mod ScriptTarget
pub mod Scripted
pub mod SureTarget
