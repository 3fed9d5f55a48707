pub mod BitCodes
