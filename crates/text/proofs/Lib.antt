pub mod PieceLaws
pub mod SameLaws
pub mod HexLaws
pub mod DecimalLaws
pub mod PrintLaws
pub mod LineLaws
pub mod DecimalReadBack
pub mod LineReadBack
