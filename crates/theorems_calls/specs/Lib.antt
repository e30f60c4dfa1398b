pub mod OfUpdate
pub mod UpdateCases
pub mod OfTransfer
pub mod TransferCases
pub mod OfTablet
pub mod TabletCases
