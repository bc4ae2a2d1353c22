pub mod BankLaws
pub mod MarkLaws
pub mod MoveLaws
pub mod OrderLaws
pub mod ReloadLaws
mod Trees
mod Under
