pub mod SumLemmas
pub mod ValueLemmas
pub mod CallLemmas
pub mod RoomLemmas
