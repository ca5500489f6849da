pub mod MatrixLaws
pub mod ProductLaws
pub mod VectorLaws
pub mod SumLaws
pub mod TransposeLaws
mod RowListLaws
pub mod PartialMatrices
pub mod OnlyZeros
mod ChosenRows
mod RowWrites
pub mod MultipleLaws
mod DiagonalLaws
mod TermSums
mod BlockLaws
mod TableLaws
mod RewrittenRows
pub mod BlockRows
mod DirectRows
mod FourTerms
pub mod ProductRows
mod ScaledFactors
mod Appending
mod SplitRows
pub mod ReversedRows
mod EntryWrites
mod CoefficientWrites
mod TransposedBlocks
mod StripLaws
mod PlacedColumns
mod PieceLaws
mod LastTerms
mod WordTerms
mod WaitingRows
mod HornerTerms
mod ValuePowers
mod ValueDigits
mod ValuePlaces
mod HeldTerms
mod DigitTerms
pub mod ConsecutiveEntries
pub mod FormProducts
