mod Collection
mod PropertyPieces
