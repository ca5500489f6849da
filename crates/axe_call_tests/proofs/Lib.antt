pub mod SubspaceShapes
