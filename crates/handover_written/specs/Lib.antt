pub mod Placing
pub mod InTurn
pub mod WritingRefusals
pub mod WritesBack
pub mod WritesAgain
pub mod Witness
