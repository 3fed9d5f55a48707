pub mod BitLaws
pub mod SecondByte
