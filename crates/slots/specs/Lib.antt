-- What the contracts cite besides the definitions of document 01.
pub mod Codes
