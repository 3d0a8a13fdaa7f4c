pub mod Working
pub mod Lending
pub mod Taking
