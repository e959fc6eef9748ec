-- Proofs about texts that differ.
mod Kept
mod Rows
