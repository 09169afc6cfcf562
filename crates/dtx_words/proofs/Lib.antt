pub mod FittingLemmas
pub mod NetworkNamesLemmas
pub mod FileNames
pub mod FittedRow
pub mod LinePieces
pub mod Numbers
pub mod Printed
pub mod Repeated
