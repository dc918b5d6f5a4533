mod Bell
