pub mod Story
pub mod Written
pub mod Page
pub mod Printed
