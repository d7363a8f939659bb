pub mod SortedUploads
