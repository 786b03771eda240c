mod Blocks
mod Keys
mod Leaves
mod Trees
