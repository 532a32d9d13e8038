mod Settled
mod TakingIn
