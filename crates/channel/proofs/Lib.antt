-- Laws of the definitions, from the bottom up.
pub mod Handed
pub mod PhaseLaws
pub mod SlotLaws
pub mod ReceiverLaws
pub mod JudgeLaws
mod Finish
pub mod FrameLaws
mod QuietLaws
mod ByteLaws
mod PieceLaws
mod LoopLaws
