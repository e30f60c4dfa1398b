pub mod SalvageLaws
