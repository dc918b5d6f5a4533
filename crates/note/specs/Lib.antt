pub mod NoteCall
