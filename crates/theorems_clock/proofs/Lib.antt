pub mod PromiseLaws
