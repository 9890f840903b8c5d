pub mod Answer
pub mod AnswerFault
pub mod Brought
pub mod Picked
pub mod Sent
pub mod Printed
