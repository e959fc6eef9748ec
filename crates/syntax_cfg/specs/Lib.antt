-- What holds in conditions, as texts.
pub mod Cfg
pub mod Cut
pub mod Name
