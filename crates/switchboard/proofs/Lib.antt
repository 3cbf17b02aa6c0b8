mod ArgumentsLemmas
mod CleanLemmas
mod SocketsLemmas
mod TellingLemmas
