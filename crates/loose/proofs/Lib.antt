-- The law that joins the two definitions, which the proofs of the functions use, and what the scan makes of heads that are written.
pub mod ScanLaws
pub mod Written
