pub mod Lorry
