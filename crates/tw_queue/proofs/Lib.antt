mod Tables
mod Wholes
mod Halves
mod Leaves
mod Queues
mod Fars
mod Times
