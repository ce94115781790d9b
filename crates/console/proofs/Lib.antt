mod Obeyed
