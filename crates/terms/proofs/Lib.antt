pub mod HexadecimalLemmas
pub mod RoomLemmas
