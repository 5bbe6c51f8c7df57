pub mod Maze
