pub mod Maps
pub mod Tidying
pub mod Tops
