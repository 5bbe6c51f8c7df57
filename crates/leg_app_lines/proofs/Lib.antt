mod MoveLines
