pub mod Trainer
