mod Read
mod Edges
