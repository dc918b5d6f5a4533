mod NoteEnds
mod ScoreEnds
