-- Places and numbers that have room in a code; a run of events; the calls; then the claims, and what each exported function gives.
pub mod Places
pub mod Small
pub mod Runs
pub mod Calls
pub mod Claims
pub mod HostClaims
