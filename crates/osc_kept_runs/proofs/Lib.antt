pub mod KeptRunLemmas
