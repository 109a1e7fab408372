pub mod PayloadReading
