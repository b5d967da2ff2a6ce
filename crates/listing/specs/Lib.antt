pub mod Printed
pub mod Page
