pub mod StringPuts
