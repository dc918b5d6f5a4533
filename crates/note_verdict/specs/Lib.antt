pub mod NoteRefusals
