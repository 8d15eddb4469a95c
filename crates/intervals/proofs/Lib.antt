pub mod CellLaws
pub mod ClassCellLaws
pub mod EitherLaws
pub mod TakenAsLaws
pub mod InsideLaws
pub mod FillBehindTurn
