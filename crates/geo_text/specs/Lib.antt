pub mod Token
pub mod Decimal
pub mod Grammar
pub mod Reading
pub mod Fault
pub mod Number
pub mod Machine
